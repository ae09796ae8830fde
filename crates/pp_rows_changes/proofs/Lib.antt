mod Changes1
mod Changes2
mod Changes3
mod Changes4
mod Changes5
mod Changes6
