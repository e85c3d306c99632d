mod Parted
mod Words
