mod OutputFacts
mod Reading
