mod DigitLaws
