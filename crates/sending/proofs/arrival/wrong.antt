-- Wrong senders, of each of which `Arrives` is false.
pub mod Mistakes
pub mod Computed
pub mod Teeth
