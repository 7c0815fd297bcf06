-- A side's list holds the paths of the definition and the links between their places, from the stores into it up to the whole sweep.
pub mod Side
pub mod LinkStores
pub mod Links
pub mod Trade
pub mod Downshift
pub mod Advance
pub mod StartAndLeave
pub mod Slots
pub mod Ready
pub mod Step
pub mod Sweep
