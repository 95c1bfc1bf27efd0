-- "Name: 1 to 4,096 bytes, UTF-8, no zero byte, begins with `/` or `~/`, each component (between slashes, may be empty)
-- at most 255 bytes and not `..`."
use Rattle.std.specs.Prelude.{ℕ, Bool, not, ◌&&◌, ◌||◌, List, length, leb}
use Rattle.octets.specs.Members.{every}
use Rattle.octets.specs.Ascii.{ascii}
use Rattle.octets.specs.Slices.{equals, starts_with, lacks}
use Rattle.octets.specs.Split.{split}
use Rattle.pathname.specs.Utf8.{utf8}

-- "1 to 4,096 bytes"
abbrev pub name_limit : ℕ
name_limit = 4096

-- "each component .. at most 255 bytes"
abbrev pub component_limit : ℕ
component_limit = 255

-- "begins with `/` or `~/`"
unfoldable pub rooted : List ℕ → Bool
rooted n = starts_with n (ascii "/") || starts_with n (ascii "~/")

-- "at most 255 bytes and not `..`"
unfoldable pub valid_component : List ℕ → Bool
valid_component c = leb (length c) component_limit && not (equals c (ascii ".."))

-- "each component (between slashes, may be empty)"
unfoldable pub valid_components : List ℕ → Bool
valid_components n = every valid_component (split 47 n)

unfoldable pub valid_name : List ℕ → Bool
valid_name n =
    leb 1 (length n) &&
    (leb (length n) name_limit &&
    (utf8 n &&
    (lacks 0 n &&
    (rooted n &&
    valid_components n))))
