mod Remainders
mod Steps
