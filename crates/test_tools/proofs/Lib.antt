mod Spends
