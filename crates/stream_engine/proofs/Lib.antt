pub mod Logged
pub mod Told
pub mod Ends
pub mod Stops
pub mod Goes
pub mod Runs
pub mod Came
pub mod Units
