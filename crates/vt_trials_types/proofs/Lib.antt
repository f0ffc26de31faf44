mod AllLeft
