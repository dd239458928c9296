pub mod Escapes
pub mod Loops
pub mod Outside
pub mod Words
pub mod PathTexts
pub mod RowTexts
pub mod TableTexts
pub mod Printed
