mod Joining
mod Noting
mod Parts
