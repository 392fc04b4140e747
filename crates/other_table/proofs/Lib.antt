mod Evens
