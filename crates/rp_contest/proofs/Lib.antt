mod Ending
mod Fitting
mod Handing
mod Judging
mod Running
