pub mod ScopeLine
