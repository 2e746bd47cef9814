pub mod Expressions
pub mod TreeText
pub mod Printed
pub mod Written
pub mod Read
pub mod OneWay
