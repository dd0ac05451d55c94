mod Neighbours
