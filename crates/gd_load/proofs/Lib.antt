mod Beginnings
mod Onward
mod Pages
