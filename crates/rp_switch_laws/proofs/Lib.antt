mod Barred
