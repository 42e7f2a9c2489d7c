pub mod LowerDigits
