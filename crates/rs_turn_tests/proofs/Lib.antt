mod Unnamed
