mod Nested
