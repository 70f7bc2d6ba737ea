mod Beats
