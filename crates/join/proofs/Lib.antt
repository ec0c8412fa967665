mod Passing
mod Filling
