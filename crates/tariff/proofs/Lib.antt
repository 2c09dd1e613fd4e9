mod Rates
