-- A file that the office asks for, in the history: the parts that the console supplied for it since its request, and those written.
use Rattle.std.specs.Prelude.{Bool, false, cond, ◌&&◌, List, [], ◌∷◌, ◌++◌, eqb, Option, Some, None}
use Rattle.command.specs.Meaning.{action_code, data_of}
use Rattle.protocol.specs.History.{Command, Heard, Mark, Part, Question, last_read, last_ask, ask_for, commands_in}
use Rattle.protocol.specs.Stretches.{Key, is_for, is_data}

-- the ask is a request for the file
abbrev pub wants : Key → Question → Bool
wants k Question.none = false
wants k (Question.asks c Heard.opens) = false
wants k (Question.asks c (Heard.writes p)) = false
wants k (Question.asks c (Heard.writes_last p)) = false
wants k (Question.asks c Heard.commits) = false
wants k (Question.asks c Heard.requests) = is_for k c

-- the parts for the file among commands: "data and end_data", and end_data is the last one
abbrev pub part_in : Command → Part
part_in c = record { last = eqb (action_code c) 5; bytes = data_of c }

abbrev pub parts_among : Key → List Command → List Part
parts_among k [] = []
parts_among k (c ∷ cs) = cond (is_data c && is_for k c) (part_in c ∷ parts_among k cs) (parts_among k cs)

-- a part that was taken, if the file is the one asked for last
abbrev pub part_taken : Key → Question → Option Part → List Part
part_taken k q None = []
part_taken k q (Some p) = cond (wants k q) (p ∷ []) []

-- "the joined parts written for a file since its request"; the latest request counts
abbrev pub written_parts : Key → List Mark → List Part
written_parts k [] = []
written_parts k (Mark.read c ∷ m) = written_parts k m
written_parts k (Mark.asked a ∷ m) = cond (wants k (ask_for (last_read m) a)) [] (written_parts k m)
written_parts k (Mark.allow i ∷ m) = written_parts k m
written_parts k (Mark.drop i ∷ m) = written_parts k m
written_parts k (Mark.answer b q ∷ m) = written_parts k m
written_parts k (Mark.wrote p bs ∷ m) = written_parts k m ++ parts_among k (commands_in bs)

-- "those the console supplied for it, in order, without those refused"
abbrev pub supplied_parts : Key → List Mark → List Part
supplied_parts k [] = []
supplied_parts k (Mark.read c ∷ m) = supplied_parts k m
supplied_parts k (Mark.asked a ∷ m) = cond (wants k (ask_for (last_read m) a)) [] (supplied_parts k m)
supplied_parts k (Mark.allow i ∷ m) = supplied_parts k m
supplied_parts k (Mark.drop i ∷ m) = supplied_parts k m
supplied_parts k (Mark.answer b q ∷ m) = supplied_parts k m
supplied_parts k (Mark.wrote p bs ∷ m) = supplied_parts k m ++ part_taken k (last_ask m) p
