mod Frozen
