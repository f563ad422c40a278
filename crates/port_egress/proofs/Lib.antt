mod Words
mod Entries
mod Egresses
mod Guesses
mod Lives
mod Outputs
mod Places
mod Senders
