pub mod Retired
pub mod Conversions
pub mod DeliveryOrders
mod Refusals
