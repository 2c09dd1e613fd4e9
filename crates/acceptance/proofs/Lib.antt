mod CellWords
