mod Onward
mod Waits
mod Named
mod Visits
mod Admitting
mod Fetching
mod Seated
mod Trying
