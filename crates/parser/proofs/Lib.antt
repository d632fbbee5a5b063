mod Determined
