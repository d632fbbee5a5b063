mod Examples
mod Before
mod Determined
mod Without
