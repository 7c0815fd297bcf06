-- What the functions of the text answer, in the terms of the definitions, and laws of the forms.
pub mod Scans
pub mod DueForms
pub mod Words
pub mod DigitByDigit
pub mod ItemByItem
pub mod Put
pub mod Answers
pub mod Written
pub mod WrittenOuts
pub mod Marks
pub mod Rows
pub mod Read
pub mod Outs
pub mod ReadOuts
pub mod Sizes
pub mod Tables
