mod Numbers
mod Fronts
mod Sides
mod Moments
mod Steps
mod Actions
mod Telling
mod Runs
