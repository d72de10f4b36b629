-- What follows from what a command gives, in the words of a caller.
pub mod Headline
pub mod Ends
pub mod Leaves
