mod Tables
mod Whole
mod Logs
mod Runs
mod Texts
mod Dates
mod Example
