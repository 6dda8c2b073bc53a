pub mod Rehearse
