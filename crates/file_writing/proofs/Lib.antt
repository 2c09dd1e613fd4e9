mod WrittenBytes
