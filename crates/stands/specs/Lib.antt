-- What the contracts on two reports speak of, and what the program prints of them.
pub mod Standing
pub mod Printed
