mod StandardRows
mod TableRows
mod Worked
