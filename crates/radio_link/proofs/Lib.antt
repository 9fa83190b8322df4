mod Steps
mod Meanings
mod Back
