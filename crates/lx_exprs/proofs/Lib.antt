pub mod Classical
pub mod Forms
pub mod Contents
pub mod Classes
pub mod TagLists
