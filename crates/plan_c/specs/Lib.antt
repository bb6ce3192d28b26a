-- The exported planners, frozen check, converter and delivery orders: what each call gives and leaves (Calls), and the laws of it (Laws).
pub mod Calls
pub mod Laws
