mod OpenFacts
