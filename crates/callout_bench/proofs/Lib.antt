mod Teams
