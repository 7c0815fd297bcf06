-- The code's loops and calls, turn by turn, are the definitions on lists of specs/.
pub mod Write
pub mod Links
pub mod Between
