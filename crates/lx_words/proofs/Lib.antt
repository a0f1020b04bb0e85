mod Digits
mod OddNames
mod Simple
