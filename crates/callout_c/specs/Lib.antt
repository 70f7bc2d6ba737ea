-- The exports of `libcallout.a`: what each tells a C program, by what its handle has.

-- the status of each export: what the callouts answer, or an error below 0, as EBADF or EBUSY
pub mod Exports
-- what a handle owns: the box of its callouts, if it has any
pub mod Owned
