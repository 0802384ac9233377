mod Alike
mod Played
