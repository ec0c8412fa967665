pub mod Laying
pub mod Short
pub mod Listing
