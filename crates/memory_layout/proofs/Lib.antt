-- laws for the returns of words.rt, parts.rt and layout.rt
mod Putting
mod Parting
mod Laying
