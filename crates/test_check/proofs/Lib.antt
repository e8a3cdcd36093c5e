mod RowsRight
