-- The words of the C interface's promises.
pub mod Reported
