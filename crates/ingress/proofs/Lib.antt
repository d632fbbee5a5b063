mod Determined
mod Codes
mod Serials
mod Restart
