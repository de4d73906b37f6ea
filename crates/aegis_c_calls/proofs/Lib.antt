mod Begun
mod OneRecord
mod JournalFacts
