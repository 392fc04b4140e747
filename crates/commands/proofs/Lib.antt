mod Digits
mod Exact
mod Names
mod Spaced
mod Back
