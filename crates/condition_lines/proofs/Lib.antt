mod Counted
mod Last
mod Listed
mod Passed
