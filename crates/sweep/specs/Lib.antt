-- What the functions of this crate compute, on lists, as their loops run: one side's list, and the sweep on both.
pub mod Side
pub mod Sides
